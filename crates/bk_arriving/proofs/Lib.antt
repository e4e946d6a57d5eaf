pub mod Adding
pub mod Ahead
pub mod Logs
pub mod Read
pub mod Rest
pub mod Unchanged
pub mod Making
