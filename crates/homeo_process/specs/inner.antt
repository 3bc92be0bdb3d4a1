pub mod Endings
pub mod Feeds
pub mod Lines
pub mod Shells
pub mod Voices
