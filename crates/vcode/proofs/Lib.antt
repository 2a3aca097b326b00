pub mod Comparing
mod Computed
mod Words
pub mod Lists
pub mod Stepping
mod Affording
pub mod Replacing
pub mod SameReads
pub mod Following
pub mod Acting
pub mod Alike
pub mod Rewriting
pub mod SameActs
pub mod Writing
pub mod Leading
pub mod Factual
pub mod Measuring
pub mod Results
pub mod InPlace
pub mod Weaker
pub mod Facts
