pub mod Alike
pub mod Answering
pub mod Lookups
pub mod Parts
pub mod Sums
