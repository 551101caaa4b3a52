pub mod Widths
pub mod Kept
pub mod Hits
pub mod Lawful
