pub mod Inside
pub mod Marked
