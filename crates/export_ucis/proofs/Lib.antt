pub mod Chains
pub mod Attributes
pub mod Pairs
