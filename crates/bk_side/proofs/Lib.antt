pub mod Entries
pub mod Steps
pub mod Finished
pub mod Sides
pub mod Names
pub mod Files
