pub mod Tests
pub mod Nodes
pub mod Export
pub use Rattle.merge_store.specs.Now
pub use Rattle.merge_store.specs.Stores
