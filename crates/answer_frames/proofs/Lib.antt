mod Bools
pub mod Writing
