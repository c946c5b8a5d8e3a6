pub mod Lists
pub mod Canon
pub mod Rises
pub mod FromSort
pub mod Members
pub mod Orders
