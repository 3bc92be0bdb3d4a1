pub mod After
pub mod Rows
pub mod inner
