pub mod Errors
pub mod Recovering
pub mod Troubles
pub use Rattle.bk_arriving.specs.Extents as ArrivingExtents
pub use Rattle.bk_arriving.specs.RestoringArriving
pub use Rattle.bk_arriving.specs.Sets as ArrivingSets
pub use Rattle.bk_arriving.specs.VolumeStored
