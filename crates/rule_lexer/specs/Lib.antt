pub mod SignBytes
pub mod Sorts
pub mod Spelling
pub mod Places
pub mod Reading
pub mod Lexing
pub mod Writing
