pub mod Commands
pub mod Masks
pub mod SenseBytes
