pub mod AtomExample
pub mod CallExample
pub mod Example
pub mod Lists
pub mod LocalExample
pub mod ObjectExample
pub mod SlackExample
pub mod SplitExample
