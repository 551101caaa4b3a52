pub mod Bytes
pub mod Kinds
pub mod Spellings
pub mod Operators
pub mod Forms
pub mod Literals
pub mod Lexes
pub mod Reading
