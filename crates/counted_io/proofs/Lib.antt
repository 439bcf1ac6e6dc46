pub mod Written
pub mod Spelling
