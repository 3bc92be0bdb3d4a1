pub mod Key
pub mod Leads
pub mod Own
