pub mod Admission
pub mod Left
pub mod Outcomes
pub mod Batches
pub mod Steps
