pub mod Totals
pub mod Walks
pub mod Joining
pub mod Requests
pub mod Assembly
pub mod Waits
