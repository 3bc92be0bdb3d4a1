pub mod Called
pub mod Certified
pub mod Made
pub mod Reading
pub mod Served
pub mod Wired
pub mod inner
