pub mod Bins
pub mod Laws
pub mod Lists
pub mod Removal
pub mod Steps
pub mod Tests
