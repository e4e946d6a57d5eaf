pub mod Log
pub mod Laws
pub use Rattle.bk_control.specs.Slots as ControlSlots
pub use Rattle.bk_gate.specs.Gate
