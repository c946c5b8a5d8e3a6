pub mod Values
pub mod Operands
pub mod Alike
