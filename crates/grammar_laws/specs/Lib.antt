pub mod Continuations
pub mod Tokens
pub mod Tables
