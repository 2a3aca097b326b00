pub mod Refusals
pub mod Laws
pub mod Pipeline
pub mod Symbols
