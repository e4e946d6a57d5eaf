pub mod Knowing
pub mod Lists
