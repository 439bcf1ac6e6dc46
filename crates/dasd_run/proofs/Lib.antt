mod Built
mod Held
mod Sectioned
mod Loading
pub mod Paths
pub mod Saving
mod Told
mod Unfiled
pub mod Obeying
pub mod Writes
