pub mod Noted
pub mod Settling
