pub use Rattle.elab_bins.specs.Automatic
pub use Rattle.elab_bins.specs.Left
pub use Rattle.elab_bins.specs.Removal
