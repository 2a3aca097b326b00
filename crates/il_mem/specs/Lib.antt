pub mod Joined
pub mod Written
pub mod Cells
pub mod Changed
