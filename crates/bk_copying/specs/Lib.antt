pub mod CopyLaws
pub mod Copying
pub mod Errors
pub mod ExtentLaws
pub mod Extents
pub mod SetLaws
pub mod Troubles
