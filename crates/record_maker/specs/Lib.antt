pub mod Generator
pub mod Pushing
pub mod Making
pub use Rattle.record_codec.specs.Builders
pub use Rattle.record_codec.specs.Spelling
pub use Rattle.record_codec.specs.Starts
pub use Rattle.cov_counting.specs.Tables
pub use Rattle.sampler.specs.Shape
