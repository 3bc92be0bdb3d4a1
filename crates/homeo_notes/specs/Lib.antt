pub mod Lines
pub mod Boards
pub mod inner
