pub mod Data
pub mod Texts
pub mod Found
