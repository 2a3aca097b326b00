pub mod Parts
pub mod Suiting
pub mod Running
pub mod Keeping
