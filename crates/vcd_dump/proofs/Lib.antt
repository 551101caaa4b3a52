pub mod Found
pub mod Unpacked
pub mod Widths
pub mod Loops
