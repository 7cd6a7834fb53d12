pub mod Blocks
pub mod Judging
pub mod Accepted
pub mod Unique
