pub mod Inside
pub mod Pages
pub mod Rankings
