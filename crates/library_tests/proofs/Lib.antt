pub mod Going
pub mod Codes
