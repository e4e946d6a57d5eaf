mod Copies
mod Fresh
mod Given
mod Listed
mod Headers
mod Backups
mod Enough
