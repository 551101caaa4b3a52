pub mod Clipping
pub mod Keeping
pub mod Runs
pub mod Taking
pub mod Written
