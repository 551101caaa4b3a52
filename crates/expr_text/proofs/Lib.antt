pub mod Sizes
mod Rows
