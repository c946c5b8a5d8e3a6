pub mod Trees
pub mod Marks
pub mod Tokens
pub mod Values
pub mod Texts
pub mod Files
pub mod Lists
pub mod Machine
