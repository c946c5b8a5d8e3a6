pub mod HistoryLaws
pub mod PresentLaws
pub mod LedgerLaws
pub mod RollLaws
pub mod EngineLaws
