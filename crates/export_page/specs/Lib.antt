pub mod Views
pub mod Page
pub mod Laws
pub use Rattle.merge_store.specs.Now
pub use Rattle.merge_store.specs.Stores
