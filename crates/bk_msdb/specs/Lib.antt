pub mod Laws
pub mod Msdb
pub mod Rows
pub mod Spelling
