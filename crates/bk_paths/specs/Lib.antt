pub mod Paths
pub mod Pages
pub mod Laws
pub mod PathLaws
pub mod PageLaws
