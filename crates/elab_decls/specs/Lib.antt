pub mod Shapes
pub mod Enumerations
pub mod Variables
pub mod Formals
pub mod Options
pub mod Invariant
pub mod Laws
