pub mod Bounded
pub mod Decided
pub mod Gathering
pub mod Served
pub mod Tabulating
pub mod Texts
pub mod Unended
