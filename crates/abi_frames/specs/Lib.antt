pub mod Performs
pub mod Moves
pub mod Emission
pub mod Functions
pub mod Examples
