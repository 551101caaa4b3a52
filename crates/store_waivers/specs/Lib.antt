pub mod Waived
pub mod Lines
pub mod Among
pub use Rattle.merge_store.specs.Now
pub use Rattle.merge_store.specs.Stores
