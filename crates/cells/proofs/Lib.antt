pub mod Writing
pub mod Pages
pub mod Decimals
pub mod Unique
