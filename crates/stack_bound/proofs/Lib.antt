pub mod Every
pub mod Good
pub mod GoodTurns
pub mod GoodRuns
pub mod Unbounded
pub mod MainBound
