pub mod Pairs
pub mod Tables
pub mod Steps
pub mod Apart
pub mod Counts
