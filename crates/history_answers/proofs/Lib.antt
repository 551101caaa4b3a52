pub mod Worked
pub mod Amounting
pub mod Asked
pub mod Changing
pub mod Inside
pub mod Following
