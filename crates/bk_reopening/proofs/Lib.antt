mod Causes
mod Found
mod Fits
mod Notes
mod Rows
mod Pages
mod Settled
mod Opened
