pub mod Digits
pub mod Found
pub mod Lines
pub mod Loads
pub mod OneCommand
pub mod Taken
