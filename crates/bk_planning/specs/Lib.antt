pub mod Marking
pub mod NewTables
pub mod Opening
pub mod Undoing
pub mod Stepping
