pub mod Cut
pub mod Lines
pub mod Stands
pub mod inner
