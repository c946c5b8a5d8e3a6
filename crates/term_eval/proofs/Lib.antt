pub mod Checked
pub mod Equal
pub mod Places
pub mod Arguments
