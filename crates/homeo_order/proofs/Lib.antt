pub mod Accepting
pub mod Scheduling
