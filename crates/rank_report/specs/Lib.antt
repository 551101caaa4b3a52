pub mod Laws
pub mod Lines
pub mod Ranking
pub mod Steps
pub use Rattle.tally.specs.Rows
