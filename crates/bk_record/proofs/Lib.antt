pub mod ExtentRuns
pub mod ImageRuns
mod Skims
