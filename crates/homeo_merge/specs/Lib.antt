pub mod Misfit
pub mod inner
