pub mod Joins
pub mod Watches
