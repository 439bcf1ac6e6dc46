pub mod Alternates
pub mod Blocks
pub mod Members
pub mod Names
pub mod Raw
pub mod Stops
pub mod Walk
pub mod Written
