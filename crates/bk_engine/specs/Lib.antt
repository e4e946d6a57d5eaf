pub mod Stands
pub mod Acts
pub mod Loading
pub mod NameLaws
pub mod ActLaws
pub mod PartLaws
pub mod SettleLaws
pub mod BesideLaws
pub mod LoadLaws
pub mod Amid
pub mod AmidLaws
pub mod CloseLaws
pub mod SeatLaws
pub mod Rows
pub mod RowLaws
pub mod Saying
pub mod Sealing
pub mod Copying
pub mod Copied
pub mod CopiedLaws
pub mod Jobs
pub mod JobLaws
pub mod Touched
pub mod TouchLaws
pub mod Bringing
pub mod GivenLaws
pub mod BringingLaws
pub mod Viewing
pub mod ViewLaws
pub use Rattle.bk_fields.specs.Guids
pub use Rattle.bk_hosting.specs.AskLaws as HostingAskLaws
pub use Rattle.bk_hosting.specs.Copying as HostingCopying
pub use Rattle.bk_hosting.specs.Hosting
pub use Rattle.bk_hosting.specs.Loading as HostingLoading
pub use Rattle.bk_store.specs.Told as StoreTold
pub use Rattle.bk_stores.specs.ListLaws as StoresListLaws
pub use Rattle.bk_stores.specs.SlotLaws as StoresSlotLaws
pub use Rattle.bk_stores.specs.Standing as StoresStanding
pub use Rattle.bk_stores.specs.Stores
