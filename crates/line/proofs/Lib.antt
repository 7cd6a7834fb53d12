pub mod Rings
pub mod Queues
pub mod Heads
