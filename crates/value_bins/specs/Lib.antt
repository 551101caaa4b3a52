pub mod Clips
pub mod Listed
pub use Rattle.bin_spec.specs.Parts
pub use Rattle.cov_ground.specs.Limits
