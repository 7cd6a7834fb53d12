pub mod Decimal
pub mod Writes
pub mod Pages
