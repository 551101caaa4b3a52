pub mod Items
pub mod Walks
pub mod Starts
mod Parts
mod OneRecord
pub mod Alone
mod Flat
mod Ready
pub use Rattle.sampler_plans.proofs.Tables
pub use Rattle.sampler_plans.proofs.Designs
pub use Rattle.sampler_plans.proofs.plan
