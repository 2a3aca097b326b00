pub mod Plans
pub mod Keeping
