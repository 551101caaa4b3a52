pub mod Bins
pub mod Crosses
pub mod Left
pub mod Limits
pub mod Laws
pub mod Tested
pub mod Testing
