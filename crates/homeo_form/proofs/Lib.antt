mod Adding
mod CheckedSteps
mod ConstantSteps
mod DeltasBySite
pub mod DeltasInOrder
mod FactorsFound
mod Folds
mod FormParts
pub mod FormSteps
mod ItemForms
mod ObjectPlaces
pub mod Orders
pub mod RunningSums
mod Stands
mod TermsAddedUp
mod Widths
