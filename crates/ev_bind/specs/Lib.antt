pub mod Bindings
pub mod Matching
pub mod Fits
pub mod Projections
pub mod Hashing
pub mod Chains
pub mod Rows
pub mod Unions
