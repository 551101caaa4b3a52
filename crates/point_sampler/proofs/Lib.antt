pub mod Places
pub mod Answering
pub mod Taking
pub mod Meeting
pub mod Standing
mod Still
mod Raising
mod Resting
mod Passing
mod Knowing
mod Ordering
