pub mod Numbers
pub mod Fields
pub mod Constants
pub mod Files
pub mod Statements
pub mod Symbols
pub mod Parts
pub mod Assembled
