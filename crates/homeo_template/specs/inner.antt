pub mod Keys
pub mod Met
