pub mod Parts
pub mod Legs
