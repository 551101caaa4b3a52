pub mod Projected
pub mod Counts
pub mod Marks
