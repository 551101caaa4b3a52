pub mod Admissions
pub mod Ahead
pub mod Fillings
pub mod Fitting
pub mod Never
pub mod OneFilling
