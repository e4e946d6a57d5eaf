pub mod Names
pub mod Pages
pub mod Side
pub mod Writing
pub mod Making
pub mod BatchLaws
pub mod Laws
