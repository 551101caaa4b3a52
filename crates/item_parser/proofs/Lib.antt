pub mod StepWalks
pub mod BinsWalks
pub mod BodyWalks
pub mod TypeWalks
pub mod GroupWalks
pub mod MemberWalks
pub mod DeclWalks
