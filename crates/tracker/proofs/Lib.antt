pub mod Lent
pub mod Restarted
pub mod Unique
