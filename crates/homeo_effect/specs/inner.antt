pub mod Alone
pub mod Literals
pub mod Uses
