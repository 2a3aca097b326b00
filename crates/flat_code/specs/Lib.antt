pub mod Flat
pub mod Step
pub mod Laws
pub mod Examples
