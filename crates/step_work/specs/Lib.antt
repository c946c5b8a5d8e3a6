pub mod Views
pub mod Stepping
pub mod Ways
pub mod Seen
pub mod Asked
pub mod Few
