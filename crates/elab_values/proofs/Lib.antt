pub mod Sorting
pub mod Widths
