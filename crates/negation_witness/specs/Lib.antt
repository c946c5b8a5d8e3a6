pub mod Looking
pub mod Ways
pub mod Testing
pub mod Working
pub mod Few
pub mod Sets
