pub mod Trees
pub mod Plain
pub mod PlainPlans
pub mod Shaped
pub mod Vars
pub mod Shown
