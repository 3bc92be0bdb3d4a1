pub mod Firsts
pub mod Grounds
pub mod Keys
