pub mod FactTable
pub mod Forwarded
pub mod Copied
