pub mod Covers
pub mod Fresh
pub mod RowsFit
pub mod SourceWrites
