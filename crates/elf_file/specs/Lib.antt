pub mod Conditions
pub mod File
pub mod Laws
