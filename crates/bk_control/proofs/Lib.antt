pub mod Completing
pub mod Filled
pub mod Finding
pub mod Growing
pub mod Making
pub mod Puts
pub mod SlotLaws
pub mod Steps
