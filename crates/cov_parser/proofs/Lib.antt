pub mod DesignWalks
pub mod CovergroupWalks
pub mod Keeping
pub mod Faults
