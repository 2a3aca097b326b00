pub mod Lanes
pub mod Members
