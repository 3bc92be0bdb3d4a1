pub mod AtomExample
pub mod CallExample
pub mod Example
pub mod Object
pub mod ObjectExample
pub mod SlackExample
pub mod SplitExample
