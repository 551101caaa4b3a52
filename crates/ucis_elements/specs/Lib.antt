pub mod Words
pub mod Numbers
pub mod Bins
pub mod Items
