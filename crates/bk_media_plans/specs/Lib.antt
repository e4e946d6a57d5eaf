pub mod SetPaths
pub mod Sets
pub mod Backups
pub mod Found
pub mod Moves
pub mod Restoring
pub mod RestorePlans
pub mod Waits
