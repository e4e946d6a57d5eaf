pub mod Marks
pub mod Maps
pub mod Calls
