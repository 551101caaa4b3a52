pub mod Cells
pub mod Reach
pub mod Windows
pub mod Words
