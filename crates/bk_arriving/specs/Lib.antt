pub mod Errors
pub mod Extents
pub mod Sets
pub mod Steps
pub mod Laws
pub use Rattle.bk_body.specs.Body
pub use Rattle.bk_filling.specs.Filling
pub use Rattle.bk_restored.specs.Restored
pub use Rattle.bk_restoring.specs.Arriving as RestoringArriving
pub use Rattle.bk_volume.specs.Stored as VolumeStored
