pub mod Masks
pub mod Layout
pub mod Removing
pub mod State
pub mod Steps
pub use Rattle.trans_seq.specs.Cells
pub use Rattle.trans_seq.specs.Windows
