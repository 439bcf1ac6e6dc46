pub mod Described
pub mod Folder
mod Found
pub mod Steps
mod Through
mod Told
mod Unloaded
