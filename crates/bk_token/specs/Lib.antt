pub mod Bytes
pub mod Contents
pub mod Pieces
pub mod Reading
pub mod Tokens
pub mod Places
pub mod RunLaws
pub mod Laws
