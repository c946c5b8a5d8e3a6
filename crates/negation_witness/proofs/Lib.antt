pub mod TestLaws
pub mod SettleLaws
pub mod WorkLaws
