pub mod Equations
pub mod Known
pub mod Named
pub mod Nodes
pub mod Words
