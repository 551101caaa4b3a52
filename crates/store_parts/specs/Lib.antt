pub mod Keeps
pub mod Words
pub mod Told
pub mod May
pub mod Sound
pub mod Putting
pub mod Lasts
pub mod Remakes
