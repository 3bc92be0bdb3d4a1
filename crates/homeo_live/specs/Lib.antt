pub mod inner
pub mod Key
pub mod LiveView
