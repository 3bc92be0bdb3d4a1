pub mod CountedTables
pub mod FormulasFit
pub mod Held
pub mod Taken
