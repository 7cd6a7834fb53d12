pub mod Filling
pub mod Reporting
pub mod Logs
