pub mod EvenBounds
pub mod Splitting
pub mod Weighted
