pub mod Operators
