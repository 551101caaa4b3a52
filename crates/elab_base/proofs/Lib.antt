pub mod Folds
pub mod Lifts
pub mod Keeps
