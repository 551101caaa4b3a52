pub mod Bytes
pub mod Marks
pub mod ReadBack
pub mod Safe
