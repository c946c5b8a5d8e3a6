pub mod Calls
pub mod Flow
pub mod Held
pub mod MemShelf
pub mod MemSink
pub mod MemSource
pub mod Sure
