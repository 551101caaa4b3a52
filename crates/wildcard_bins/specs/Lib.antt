pub mod Halves
pub mod Patterns
pub use Rattle.bin_spec.specs.Types
