pub mod Bindings
pub mod Key
pub mod Shared
pub mod Substitution
