pub mod Stands
pub mod Damage
pub mod Ending
pub mod Looking
pub mod Outcomes
pub mod Laws
