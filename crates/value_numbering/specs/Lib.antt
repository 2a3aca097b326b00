pub mod Extensions
pub mod Known
pub mod Reused
pub mod Steps
