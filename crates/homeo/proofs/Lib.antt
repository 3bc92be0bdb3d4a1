pub mod Called
pub mod Ended
pub mod OneOutput
pub mod Sessions
pub mod Verdicts
