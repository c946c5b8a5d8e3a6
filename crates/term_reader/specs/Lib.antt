pub mod Signs
pub mod Grammar
pub mod Machine
pub mod Steps
pub mod Readings
pub mod Limits
