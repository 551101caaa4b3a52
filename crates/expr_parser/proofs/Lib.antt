pub mod Operating
pub mod ExprWalks
