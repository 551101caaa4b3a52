pub mod Axes
pub mod Declarations
pub mod Free
pub mod Removal
pub mod Selections
pub mod Promises
