pub mod Histories
pub mod ActsLogs
pub mod Fitting
pub mod ActsStay
pub mod Keeping
pub mod ActsSays
pub mod ActsPlain
pub mod ActsJobs
pub mod Forking
pub mod ActsBegin
pub mod Acting
mod Kept
mod Opened
mod Lost
mod Left
mod Crashed
mod Joined
mod Happened
mod Lasting
mod Same
mod Truncated
mod Settling
mod Settled
mod SameMedia
mod SettledSteps
mod Remaining
mod Bounded
mod LeftNumbers
mod NewFiles
pub mod statements
mod Writes
mod Ends
mod Cutting
mod CutRuns
mod Between
mod Sets
mod Numbers
mod Cells
mod Lying
mod Room
mod CellCount
mod Recovering
mod Loads
mod Reaching
mod RunsBuilt
