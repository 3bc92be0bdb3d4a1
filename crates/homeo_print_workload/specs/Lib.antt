pub mod Key
pub mod Layout
pub mod Offsets
pub mod Print
pub mod Printed
pub mod ReadingBack
pub mod TokensOf
pub mod inner
