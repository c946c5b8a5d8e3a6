pub mod FlowLemmas
mod HeldLemmas
