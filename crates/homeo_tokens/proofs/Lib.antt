pub mod Clean
pub mod Front
pub mod Growing
pub mod Names
pub mod Steps
