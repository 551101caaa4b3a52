pub mod Shape
pub mod Shares
pub mod ItemPlans
pub mod Plans
pub mod Alike
