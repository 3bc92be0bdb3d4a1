pub mod Key
pub mod Tabulated
pub mod Texts
