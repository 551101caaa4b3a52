pub mod Places
pub mod Automata
pub mod Bins
mod OnlyLists
mod Entering
mod Bounds
mod Keyed
mod Asking
pub mod Dividing
