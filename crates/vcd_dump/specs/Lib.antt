pub mod Words
pub mod Numbers
pub mod Values
pub mod Gives
pub mod Header
pub mod Packing
pub mod Body
pub mod Reading
