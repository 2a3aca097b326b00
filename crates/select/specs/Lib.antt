pub mod Laws
pub mod Narrow
pub mod Selected
pub mod Typed
