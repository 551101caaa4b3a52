pub mod Agreement
pub mod Bits
pub mod Levels
pub mod Places
pub mod Whole
