pub mod Cause
pub mod Losers
pub mod Cells
pub mod CellSteps
pub mod Spelled
pub mod Holds
pub mod Laws
pub mod OpenPart
pub use Rattle.bk_world.specs.Cut as WorldCut
pub use Rattle.bk_world.specs.Pending as WorldPending
pub use Rattle.bk_world.specs.Records as WorldRecords
pub use Rattle.bk_world.specs.Says as WorldSays
