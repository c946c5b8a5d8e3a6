pub mod Naming
pub mod Made
pub mod Kept
