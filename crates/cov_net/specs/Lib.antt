pub mod Calls
pub mod Counted
pub mod Edge
pub mod Sizes
