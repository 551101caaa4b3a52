pub mod Encoded
pub mod ReadBack
pub mod Parts
pub mod Within
