pub mod Items
pub mod Sums
pub mod Laws
