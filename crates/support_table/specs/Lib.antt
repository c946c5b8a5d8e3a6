pub mod Supports
pub mod Times
pub mod Copies
pub mod Keeping
