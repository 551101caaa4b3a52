pub mod Distances
pub use Rattle.wildcard_bins.specs.Patterns
