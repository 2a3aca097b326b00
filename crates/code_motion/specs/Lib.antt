pub mod Later
pub mod Longer
