pub mod Tallied
pub mod Summed
pub mod Listed
pub mod Chunks
