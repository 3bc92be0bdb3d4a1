mod AtBase
mod Freezing
mod JoinedSlacks
mod Needing
mod Putting
