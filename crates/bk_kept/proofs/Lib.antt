pub mod Named
pub mod Tells
pub mod Seated
pub mod Least
