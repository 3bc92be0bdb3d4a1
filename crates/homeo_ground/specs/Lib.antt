pub mod Grounding
pub mod Key
pub mod Sited
pub mod Table
pub mod inner
