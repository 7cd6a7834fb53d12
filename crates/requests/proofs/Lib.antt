pub mod Early
pub mod Numbers
