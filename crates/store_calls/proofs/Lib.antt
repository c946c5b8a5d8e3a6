pub mod Partners
pub mod Sweeps
