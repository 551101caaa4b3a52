pub mod Frames
pub mod Given
pub mod Laws
pub mod Limits
pub mod Reading
pub mod Requests
pub mod Spelled
