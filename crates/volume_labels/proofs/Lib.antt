mod Blanks
mod Entries
mod StepsOver
mod Sharing
pub mod Orders
