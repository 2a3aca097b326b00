pub mod Commuting
pub mod Swapping
pub mod Keeping
pub mod Measuring
