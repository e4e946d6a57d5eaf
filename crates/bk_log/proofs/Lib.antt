pub mod Cuts
pub mod Growing
pub mod Makes
pub mod Parts
pub mod Removals
pub mod Resets
pub mod Steps
