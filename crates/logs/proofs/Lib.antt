pub mod Setups
pub mod Rows
pub mod Asking
pub mod Unique
