pub mod Quoted
pub mod Next
pub mod Place
pub mod Token
pub mod Scan
