pub mod Tables
pub mod Places
mod Points
mod Chosen
mod Alike
mod Expressions
pub mod Designs
