pub mod Branches
pub mod Cursors
pub mod Key
pub mod Makings
pub mod Partings
pub mod Walks
