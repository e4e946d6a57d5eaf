pub mod Apart
pub mod Kept
pub mod Listed
pub mod Parts
pub mod Taken
