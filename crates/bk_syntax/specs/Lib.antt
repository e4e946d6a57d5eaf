pub mod Items
pub mod Limits
pub mod Reader
pub mod Statement
