pub mod Heads
pub mod Making
pub mod Needed
pub mod Ranks
