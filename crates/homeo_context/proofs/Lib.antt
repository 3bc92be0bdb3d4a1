pub mod FieldSteps
pub mod Given
pub mod Placing
pub mod Relations
pub mod Rows
pub mod SlotLists
pub mod Spots
pub mod Tables
