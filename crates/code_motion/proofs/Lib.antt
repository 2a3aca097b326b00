pub mod Making
pub mod MakingLater
pub mod Running
pub mod RunningLater
pub mod Keeping
pub mod KeepingLater
