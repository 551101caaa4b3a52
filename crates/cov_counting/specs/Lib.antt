pub mod Hits
pub mod Crosses
pub mod Tallies
pub mod Laws
pub mod Steps
pub mod Tables
pub use Rattle.cov_spec.specs.Number
