pub mod BitLemmas
pub mod Agreement
pub mod Spaces
pub mod Rows
