pub mod Pairs
pub mod BothThen
pub mod Blocks
pub mod Words
pub mod Shared
pub mod Walks
pub mod Seen
