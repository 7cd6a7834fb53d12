pub mod Restarted
