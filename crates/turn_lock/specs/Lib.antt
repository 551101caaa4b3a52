pub mod History
pub mod Limits
pub mod Views
pub mod Rule
pub mod Steps
pub mod Seats
pub mod Props
