pub mod ValueWalks
pub mod SelWalks
