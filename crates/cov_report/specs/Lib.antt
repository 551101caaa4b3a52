pub mod Lines
pub mod Report
pub use Rattle.merge_store.specs.Now
pub use Rattle.merge_store.specs.Stores
