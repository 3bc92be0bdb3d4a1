pub mod Bools
pub mod Integers
pub mod Lists
pub mod Naturals
pub mod Options
pub mod Places
pub mod Readers
