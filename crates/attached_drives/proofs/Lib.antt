pub mod Places
pub mod Slots
pub mod Fronts
pub mod Backs
pub mod Copies
pub mod Images
pub mod Eight
