pub mod Commands
pub mod Declarations
pub mod Engine
pub mod Exact
pub mod FirstTokens
pub mod Reading
