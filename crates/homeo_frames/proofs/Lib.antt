pub mod Cutting
pub mod EndLines
