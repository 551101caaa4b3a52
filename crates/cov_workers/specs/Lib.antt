pub mod Seated
pub use Rattle.cov_server.specs.Shares
pub use Rattle.merge_store.specs.Sound
pub use Rattle.merge_store.specs.Stores
