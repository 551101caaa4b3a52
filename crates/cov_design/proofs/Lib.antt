pub mod Invariant
pub mod Designs
pub mod Lawful
pub mod Watching
pub mod Scoped
