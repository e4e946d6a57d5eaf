pub mod Lines
pub mod MomentLemmas
