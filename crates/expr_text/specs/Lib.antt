pub mod Operators
pub mod Expressions
