pub mod Adding
pub mod Naming
pub mod Dashes
pub mod Faulting
