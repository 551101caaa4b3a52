pub mod Groups
pub mod Instances
pub mod Walk
pub mod Elaboration
pub mod Events
pub mod Invariant
