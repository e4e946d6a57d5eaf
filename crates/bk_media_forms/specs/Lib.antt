pub mod Backup
pub mod Idle
pub mod Media
pub mod Pages
pub mod Restore
pub mod Stops
pub mod BackupLaws
pub mod RestoreLaws
