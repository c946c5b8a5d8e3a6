pub mod Tells
pub mod Rests
pub mod Runs
pub mod Stops
pub mod LineLaws
pub mod Pieces
