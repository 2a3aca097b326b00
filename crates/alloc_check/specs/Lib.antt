pub mod Placed
pub mod Kept
pub mod Certified
pub mod Walk
pub mod Slotted
pub mod Prelude
