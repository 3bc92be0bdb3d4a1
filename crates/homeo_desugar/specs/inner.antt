pub mod Key
pub mod Made
pub mod Numbers
pub mod Visits
