pub mod Cuts
pub mod Blocks
pub mod Members
pub mod SameLemmas
pub mod ReachLemmas
pub mod WordLemmas
pub mod Results
