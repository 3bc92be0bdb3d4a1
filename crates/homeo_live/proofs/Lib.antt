pub mod Begun
pub mod Fitting
pub mod LiveClosings
pub mod LiveLists
pub mod LivePackets
pub mod LiveViews
pub mod Resending
pub mod StateLists
