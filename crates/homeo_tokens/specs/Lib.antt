pub mod inner
pub mod Scans
pub mod Views
