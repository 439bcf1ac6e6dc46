pub mod Happens
pub mod Looks
