pub mod Batches
pub mod Key
pub mod Laws
pub mod Streams
pub mod inner
