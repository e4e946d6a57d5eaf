pub mod Laws
pub mod Master
pub mod Spelling
pub mod Troubles
