pub mod Names
pub mod TermRuns
pub mod CondRuns
pub mod PatternRuns
pub mod FileRuns
pub mod Meanings
