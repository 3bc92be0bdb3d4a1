pub mod SchemaFits
pub mod inner
