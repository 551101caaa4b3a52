pub mod Seats
pub mod Words
pub mod Forms
