pub mod Following
pub mod Frozen
pub mod Key
