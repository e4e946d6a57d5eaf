pub mod BlobLaws
pub mod Blobs
pub mod Gate
pub mod Laws
pub mod Opened
pub use Rattle.bk_lemmas.specs.Tests as LemmasTests
