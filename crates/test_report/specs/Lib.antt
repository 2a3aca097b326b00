pub mod Tally
pub mod Printed
