pub mod Folds
pub mod SmallFolds
