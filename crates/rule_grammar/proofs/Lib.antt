pub mod Keeps
pub mod Ends
pub mod Walks
pub mod Reports
pub mod Fronts
pub mod Names
pub mod ShapedLaws
