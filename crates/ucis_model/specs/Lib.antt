pub mod Nodes
pub mod Paths
pub mod Above
pub mod Laws
