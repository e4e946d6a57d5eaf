pub mod Hosted
pub mod Fronts
pub mod PointLaws
pub mod PlaceLaws
