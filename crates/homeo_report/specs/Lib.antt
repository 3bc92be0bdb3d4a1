pub mod Key
pub mod Laws
pub mod Report
pub mod Summary
