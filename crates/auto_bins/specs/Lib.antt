pub mod Automatic
pub use Rattle.bin_spec.specs.Parts
pub use Rattle.bin_spec.specs.Types
pub use Rattle.cov_ground.specs.Limits
