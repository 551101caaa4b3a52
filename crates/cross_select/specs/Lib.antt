pub mod Products
pub mod Selections
