pub mod Written
pub mod MergeLemmas
pub mod MetLemmas
pub mod RunLemmas
pub mod ChosenLemmas
pub use Rattle.trans_found.proofs.News
pub use Rattle.trans_found.proofs.Counted
