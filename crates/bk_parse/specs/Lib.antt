pub mod Parse
pub mod Ahead
pub mod Laws
