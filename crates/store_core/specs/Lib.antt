pub mod Histories
pub mod Rebins
pub mod Bases
pub mod Asks
