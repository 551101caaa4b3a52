pub mod Places
pub mod Shares
pub mod Legal
pub mod Props
