pub mod Tested
pub mod Kept
