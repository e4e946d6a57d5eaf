pub mod Creating
pub mod Rows
pub mod Statements
pub mod CreatingLaws
pub mod LeavesLaws
pub mod RowsLaws
pub mod StatementsLaws
