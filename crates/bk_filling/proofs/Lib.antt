pub mod Pages
pub mod Blobs
pub mod Removed
