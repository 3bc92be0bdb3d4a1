pub mod Key
pub mod Plan
pub mod Written
pub mod inner
