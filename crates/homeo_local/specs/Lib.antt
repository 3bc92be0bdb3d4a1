pub mod inner
pub mod OwnValues
