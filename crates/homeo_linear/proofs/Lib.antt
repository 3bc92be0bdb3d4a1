mod Comparing
mod Coursing
mod Gaining
mod Keeping
mod Owning
