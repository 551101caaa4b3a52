pub mod Behind
pub mod Early
pub mod Readers
pub mod RequestLaws
pub mod Texts
