pub mod Copied
pub mod Sealing
