pub mod Lookups
pub mod Made
pub mod Memories
