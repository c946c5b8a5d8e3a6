pub mod OpenNames
pub mod Drill
pub mod DrillText
pub mod Recent
pub mod WorkedLines
