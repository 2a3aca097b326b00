pub mod Grammar
pub mod Asked
pub mod Refused
pub mod Examples
