pub mod Among
pub mod Excluding
