pub mod Left
pub mod Joining
pub mod Rows
pub mod Few
