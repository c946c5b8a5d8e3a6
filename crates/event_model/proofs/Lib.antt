pub mod Commas
mod Fronts
pub mod Layers
pub mod SlotSets
