pub mod Registers
pub mod Numbering
pub mod Rows
