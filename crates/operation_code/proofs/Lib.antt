pub mod ConstantNumbers
pub mod Leading
pub mod Instructions
pub mod Joining
pub mod Comparing
pub mod FormNumbers
pub mod Forms
