pub mod Ordered
pub mod Joined
