pub mod Numbers
pub mod Answering
pub mod Unique
