pub mod CanExec
pub mod inner
pub mod Key
pub mod Places
pub mod Shape
pub mod States
