pub mod Items
pub mod Moved
pub mod Order
pub mod Running
pub mod Terms
