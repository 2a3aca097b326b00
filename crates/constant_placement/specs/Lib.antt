pub mod Held
pub mod Known
