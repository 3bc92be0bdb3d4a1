pub mod Alike
pub mod Holding
pub mod Moved
pub mod Uses
