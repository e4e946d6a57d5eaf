pub mod Lsns
pub mod Lists
