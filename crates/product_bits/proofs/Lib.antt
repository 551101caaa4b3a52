pub mod BitLemmas
pub mod WordLemmas
pub mod RunLemmas
pub mod NumberLemmas
pub mod SetLemmas
