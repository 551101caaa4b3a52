pub mod Operating
pub mod Parts
