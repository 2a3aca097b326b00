mod Exact
pub mod Marks
pub mod Unset
pub mod Whole
pub mod Counting
pub mod Back
