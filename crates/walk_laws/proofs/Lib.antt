pub mod Data
pub mod Contracts
pub mod Answered
pub mod Parameters
mod Passing
pub mod Calling
pub mod Steps
pub mod Lying
pub mod InPlace
pub mod Peek
pub mod Through
