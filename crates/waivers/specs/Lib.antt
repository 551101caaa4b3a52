pub mod Patterns
pub mod Pieces
pub mod Lines
pub mod Reading
pub mod Waived
pub mod Texts
pub mod Forms
