pub mod NewFiles
pub mod Storing
