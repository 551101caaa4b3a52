pub mod formers
pub mod Exprs
pub mod Names
pub mod Widths
