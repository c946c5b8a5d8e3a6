pub mod SlotLaws
pub mod IndexLaws
pub mod WayLaws
pub mod NoteLaws
