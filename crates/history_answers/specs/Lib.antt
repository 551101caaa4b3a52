pub mod Kept
pub mod Amounts
pub mod Plain
