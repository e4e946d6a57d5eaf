pub mod Opening
pub mod Quiet
pub mod QuietLaws
pub mod TouchLaws
pub use Rattle.bk_redo.specs.PageStates as RedoPageStates
pub use Rattle.bk_redo.specs.declared.place.PageAt
