pub mod Stores
pub mod Now
pub use Rattle.store_parts.specs.Keeps
pub use Rattle.store_parts.specs.Sound
pub use Rattle.store_parts.specs.Told
pub use Rattle.store_parts.specs.Words
pub use Rattle.store_parts.specs.declared.faults.AdmitFault
pub use Rattle.store_parts.specs.declared.faults.Admitted
