pub mod Pushes
pub mod Rounds
