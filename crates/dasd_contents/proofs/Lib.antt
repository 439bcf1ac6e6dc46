pub mod Spelled
pub mod Columns
pub mod Written
