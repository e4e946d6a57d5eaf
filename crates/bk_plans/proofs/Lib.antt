pub mod InUse
pub mod Undone
pub mod Written
