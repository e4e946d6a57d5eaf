pub mod Spelling
pub mod Conditions
pub mod Reading
pub mod Found
pub mod FormLaws
pub mod Keeping
pub mod Laws
