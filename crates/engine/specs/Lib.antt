pub mod Joining
pub mod Promises
pub mod Live
