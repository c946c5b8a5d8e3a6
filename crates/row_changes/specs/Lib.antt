pub mod Changes
pub mod Partners
pub mod Visits
pub mod Kept
