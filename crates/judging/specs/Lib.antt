pub mod Blocks
pub mod Numbers
pub mod Log
