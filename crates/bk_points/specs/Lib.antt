pub mod Points
pub mod PointsLaws
