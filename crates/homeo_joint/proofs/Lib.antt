pub mod Products
pub mod Blocks
pub mod Errors
