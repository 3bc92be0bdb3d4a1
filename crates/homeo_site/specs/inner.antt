pub mod Bare
pub mod Effects
pub mod Failures
pub mod OwnRound
pub mod Parts
pub mod PlanFailures
pub mod Planning
pub mod Ready
