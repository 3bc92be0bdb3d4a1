pub mod Checked
pub mod Key
pub mod Objects
pub mod Standing
pub mod inner
