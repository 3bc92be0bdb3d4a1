pub mod GatherView
pub mod Key
pub mod PlusDeltas
pub mod Tried
