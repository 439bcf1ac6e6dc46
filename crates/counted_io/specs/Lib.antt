pub mod Calls
pub mod Streams
pub mod Text
pub mod Quantities
