pub mod Cuts
pub mod Crashes
pub mod CutLaws
pub mod Events
