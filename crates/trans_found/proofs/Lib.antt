pub mod News
pub mod Counted
pub mod FoundLemmas
pub mod ListingLemmas
pub mod Numbers
pub mod Ahead
pub mod HeldLemmas
pub mod AloneLemmas
