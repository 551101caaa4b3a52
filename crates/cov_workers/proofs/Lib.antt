pub mod StoreParts
pub mod Sharing
