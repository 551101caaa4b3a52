pub mod Texts
mod Steps
