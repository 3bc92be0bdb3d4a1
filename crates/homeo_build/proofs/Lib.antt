mod FrozenSites
mod FrozenSteps
pub mod ByObjects
pub mod FewClauses
pub mod FewFreezes
pub mod FewSites
pub mod Following
pub mod FormsMade
pub mod GroundCalls
pub mod Grown
pub mod NamedDeltas
pub mod NamedObjects
pub mod PlanParts
pub mod Planning
pub mod Rebasing
pub mod ShortResiduals
pub mod SiteShares
pub mod SizedCalls
pub mod Steadiness
pub mod Undivided
pub mod WrittenDeltas
