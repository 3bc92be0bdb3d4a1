pub mod Counts
pub mod TooMany
pub mod inner
