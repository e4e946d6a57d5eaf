pub mod Putting
pub mod Cells
