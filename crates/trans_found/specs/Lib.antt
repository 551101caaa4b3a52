pub mod Found
pub mod Held
pub mod Alone
pub mod Lists
