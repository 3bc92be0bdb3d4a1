pub mod Bound
pub mod Equations
pub mod SharedViews
