pub mod Once
pub mod Numbers
pub mod Plans
pub mod Known
pub mod Standing
