pub mod Pool
pub mod Sound
pub mod Lending
pub mod Laws
