pub mod Eachs
pub mod FoundLaws
pub mod ClimbingLaws
pub mod RefusalLaws
pub mod BoundLaws
pub mod OrderLaws
pub mod BatchLaws
