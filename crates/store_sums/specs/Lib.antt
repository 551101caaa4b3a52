pub mod Branches
pub mod Groups
pub mod Runs
pub mod Now
