pub mod Contexts
pub mod Placed
pub mod Places
pub mod Slots
