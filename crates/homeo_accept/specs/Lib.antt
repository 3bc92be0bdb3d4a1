pub mod Laws
pub mod RefusalLine
