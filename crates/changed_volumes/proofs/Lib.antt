mod Saved
mod Slots
mod OnlyFile
pub mod Told
