pub mod RunningHeld
pub mod RunningSunk
pub mod KeepingHeld
pub mod KeepingSunk
