pub mod Chains
pub mod Sounds
pub mod FullGroups
pub mod Seeing
pub mod Placing
pub mod PlannedRows
