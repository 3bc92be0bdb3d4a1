pub mod Kept
pub mod LightCalls
