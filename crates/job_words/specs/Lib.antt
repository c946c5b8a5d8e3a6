pub mod Words
pub mod Account
pub mod Requests
pub mod WorkedWords
