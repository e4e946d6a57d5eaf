pub mod Storage
pub mod Laws
