pub mod Tables
pub mod Fitting
pub mod Begins
pub mod Found
pub mod Meanings
pub mod Numbers
pub mod Covering
