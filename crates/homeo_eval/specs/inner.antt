pub mod BodyRuns
pub mod CanRun
pub mod Settings
pub mod States
pub mod Terms
pub mod Visits
