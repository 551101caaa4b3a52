pub mod Each
pub mod Tables
pub mod Begun
pub mod Pushes
pub mod Limited
pub mod Instances
pub mod Sampled
