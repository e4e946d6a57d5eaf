pub mod Guids
pub mod Models
pub mod Laws
