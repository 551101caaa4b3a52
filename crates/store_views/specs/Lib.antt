pub mod Views
pub mod Words
pub mod Version
pub use Rattle.merge_store.specs.Now
pub use Rattle.merge_store.specs.Stores
