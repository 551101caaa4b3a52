pub mod Lines
pub mod Bins
pub mod Holes
pub use Rattle.merge_store.specs.Now
pub use Rattle.merge_store.specs.Stores
