pub mod Constants
pub mod Immediates
