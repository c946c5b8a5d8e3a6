pub mod EventLines
pub mod Machine
pub mod Faults
pub mod Reads
