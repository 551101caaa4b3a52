pub mod Laws
pub mod Outputs
pub mod Fitting
