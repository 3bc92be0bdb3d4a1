pub mod Frames
pub mod LastLines
pub mod Laws
