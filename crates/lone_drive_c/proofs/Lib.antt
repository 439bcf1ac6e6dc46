pub mod AsSlot
pub mod Phases
pub mod Files
pub mod Looks
pub mod Restored
