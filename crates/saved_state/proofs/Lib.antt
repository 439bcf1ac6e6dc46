pub mod Joining
pub mod Blocks
pub mod RoundTrip
