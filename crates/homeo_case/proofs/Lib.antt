pub mod Counting
pub mod Plain
pub mod Reactions
pub mod Worlds
