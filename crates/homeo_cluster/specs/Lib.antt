pub mod inner
pub mod Key
pub mod Passes
pub mod Places
