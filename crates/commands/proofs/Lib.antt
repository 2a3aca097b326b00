pub mod Refusing
pub mod Telling
pub mod Holding
pub mod Making
pub mod Judging
pub mod Sending
pub mod Ending
pub mod Staying
