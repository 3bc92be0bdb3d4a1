pub mod Events
pub mod Facts
pub mod Key
pub mod Laws
pub mod Written
