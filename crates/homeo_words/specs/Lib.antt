pub mod Command
pub mod Numeral
pub mod inner
