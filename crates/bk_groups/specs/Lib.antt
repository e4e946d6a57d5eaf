pub mod Bits
pub mod FileSpace
pub mod Groups
pub mod Sound
pub mod Changes
