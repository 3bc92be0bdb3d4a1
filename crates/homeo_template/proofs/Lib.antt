pub mod Again
pub mod Appending
pub mod AtSites
pub mod Keys
pub mod Negation
pub mod Slacks
