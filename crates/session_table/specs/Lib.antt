pub mod Contents
pub mod Table
pub mod Serves
pub mod Says
pub mod Alone
pub use Rattle.answer_frames.specs.Frames
pub use Rattle.cov_compile.specs.Faults
pub use Rattle.store_core.specs.Histories
