pub mod Gates
pub mod Reading
pub mod Steps
