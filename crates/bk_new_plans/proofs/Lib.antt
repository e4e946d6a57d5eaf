pub mod Cuts
pub mod NewFiles
pub mod Fits
pub mod Limits
pub mod FreeFiles
pub mod PlannedCreateDatabase
