pub mod Key
pub mod Leaders
pub mod Numbers
pub mod ObjectPlan
pub mod Outlined
pub mod inner
