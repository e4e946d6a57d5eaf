pub mod Digest
pub mod Guid
pub mod Laws
pub mod Name
pub mod Path
