pub mod Opened
pub mod Foremost
pub mod Locking
pub mod Laying
