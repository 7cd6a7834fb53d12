pub mod Steps
pub mod Unique
mod Walks
mod Fields
mod Slices
