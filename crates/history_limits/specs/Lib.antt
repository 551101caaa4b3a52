pub mod Amounts
