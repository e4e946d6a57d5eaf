pub mod Answers
pub mod Causes
pub mod Given
pub mod Life
pub mod Run
pub mod Spares
pub mod Words
