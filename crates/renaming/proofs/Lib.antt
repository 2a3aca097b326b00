pub mod Sound
pub mod Running
pub mod Keeping
