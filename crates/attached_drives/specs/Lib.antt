pub mod Drives
pub mod Slots
pub mod DriveCalls
pub mod Shown
pub mod Saved
