pub mod Driving
pub mod Reactions
pub mod Ready
pub mod Stale
pub mod Standing
