pub mod Spelled
pub mod Messages
pub mod Alike
pub mod Grown
pub mod SetsAlike
