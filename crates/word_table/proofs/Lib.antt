pub mod Orders
pub mod Finding
pub mod Keeping
mod Pieces
mod Ascending
pub mod Sorting
mod Placing
