pub mod Knot
pub mod Headline
pub mod Answered
pub mod Example
pub mod Executables
pub mod Read
pub mod Compiled
