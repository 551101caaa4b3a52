pub mod Causes
pub mod Files
pub mod Number
pub mod Ranges
pub mod Told
