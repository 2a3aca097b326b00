pub mod InPlace
pub mod Laws
pub mod Growth
