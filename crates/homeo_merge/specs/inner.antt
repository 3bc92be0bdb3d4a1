pub mod Lowest
pub mod Picks
