pub mod StatementLaws
pub mod ItemsLaw
pub mod FrontLaws
pub mod ReaderLaws
