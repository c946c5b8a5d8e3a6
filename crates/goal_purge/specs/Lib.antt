pub mod Charges
pub mod Expiring
pub mod Purging
pub mod Following
