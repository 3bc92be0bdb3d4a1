pub mod CallForms
pub mod FirstCalls
pub mod KeptResiduals
pub mod OwnWrites
pub mod RelationTexts
pub mod RuleTexts
pub mod SiteSteps
