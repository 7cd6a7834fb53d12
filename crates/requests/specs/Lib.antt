pub mod Early
pub mod Numbers
pub mod Columns
