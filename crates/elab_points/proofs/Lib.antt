pub mod Filters
pub mod Singles
pub mod Removal
pub mod Unremoved
pub use Rattle.elab_bins.proofs.Kept
pub use Rattle.elab_bins.proofs.Sequences
