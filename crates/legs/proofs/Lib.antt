pub mod Turns
pub mod Legs
