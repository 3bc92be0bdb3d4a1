pub mod App
pub mod Key
pub mod Said
