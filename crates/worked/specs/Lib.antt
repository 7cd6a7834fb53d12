pub mod Made
pub mod Limits
pub mod Orders
pub mod Readings
pub mod Printed
