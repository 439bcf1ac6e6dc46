pub mod Blanks
pub mod Formats
pub mod Written
