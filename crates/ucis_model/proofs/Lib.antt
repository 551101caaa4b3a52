pub mod Longer
pub mod Steps
pub mod Finding
pub mod Parents
pub mod Lineages
