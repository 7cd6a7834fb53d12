pub mod Counting
pub mod Places
pub mod Testing
pub mod Totals
pub mod Zeros
