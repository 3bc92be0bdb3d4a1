pub mod Key
pub mod Order
pub mod Scheduled
