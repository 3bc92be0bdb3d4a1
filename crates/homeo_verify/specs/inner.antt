pub mod Compares
pub mod Follows
pub mod RulesView
pub mod Slacks
pub mod Stops
