pub mod DeskView
pub mod inner
pub mod Moves
pub mod Outputs
pub mod Places
pub mod Requests
pub mod Runs
