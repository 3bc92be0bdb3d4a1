pub mod Batching
pub mod FirstTokens
pub mod Keeping
pub mod Streaming
pub mod Taking
