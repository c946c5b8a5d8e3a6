pub mod Pairs
pub mod Place
pub mod Taken
pub mod Kept
pub mod Behind
