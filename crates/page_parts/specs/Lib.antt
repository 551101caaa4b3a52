pub mod Pieces
pub mod Standings
pub mod Rows
pub mod Frames
pub mod Curves
pub mod Fixed
