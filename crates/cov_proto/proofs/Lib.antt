pub mod FrameLaws
pub mod Heads
pub mod Loops
pub mod ReplyFaults
pub mod ReplyLaws
pub mod RowLaws
pub mod Sizes
pub mod SmallNumbers
