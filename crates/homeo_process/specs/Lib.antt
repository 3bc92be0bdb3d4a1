pub mod Cluster
pub mod Driven
pub mod Laws
pub mod Runs
pub mod Serving
pub mod Streams
pub mod Taking
pub mod inner
