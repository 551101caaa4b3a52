pub mod Marks
pub mod Radix
pub mod Bins
pub mod Among
pub mod Hits
