pub mod Placing
pub mod RunningInOrder
pub mod RunningLonger
pub mod Summing
pub mod KeepingOrder
pub mod KeepingLonger
