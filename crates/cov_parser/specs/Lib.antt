pub mod Parse
pub mod Told
pub mod Parts
