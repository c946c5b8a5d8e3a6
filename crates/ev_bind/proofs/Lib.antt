pub mod Adding
pub mod Merging
pub mod Chaining
pub mod Fitting
pub mod Uniting
