pub mod Holding
pub mod Leading
pub mod Moving
pub mod Noting
pub mod Numbers
pub mod Rebased
pub mod Slacks
