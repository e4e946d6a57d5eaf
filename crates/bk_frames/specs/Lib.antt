pub mod Pages
pub mod Blocks
pub mod Lent
pub mod Lending
