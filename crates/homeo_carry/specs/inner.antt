pub mod Answering
pub mod Carrying
