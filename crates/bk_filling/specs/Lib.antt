pub mod Errors
pub mod Filling
pub mod Laws
pub mod Records
pub mod Removing
pub mod Troubles
