mod Fields
mod Filled
mod Codes
pub mod Apart
pub mod SetFields
pub mod Places
pub mod Reached
pub mod Walked
