pub mod Command
pub mod Ended
pub mod Laws
pub mod Outcome
pub mod Serving
