pub mod Page
pub mod Changes
pub mod PartLaws
pub mod DigestLaws
pub mod Laws
