pub mod Independent
