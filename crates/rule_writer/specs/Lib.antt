pub mod Forms
pub mod Spelled
pub mod Canonical
pub mod Writes
