pub mod EffectsView
pub mod Indexed
pub mod Key
pub mod Localized
pub mod OwnCommands
pub mod Touched
pub mod inner
