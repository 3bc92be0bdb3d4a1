pub mod Heads
pub mod Tokens
