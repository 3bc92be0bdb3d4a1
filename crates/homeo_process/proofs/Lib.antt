pub mod Clustering
pub mod Feeding
pub mod Lining
pub mod Reading
pub mod Begun
pub mod Served
pub mod Taken
