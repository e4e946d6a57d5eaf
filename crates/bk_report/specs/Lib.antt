pub mod Cells
pub mod Databases
pub mod Files
pub mod Histories
pub mod Listing
pub mod Sets
pub mod Times
