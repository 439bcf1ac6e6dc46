pub mod Noted
pub mod Numbers
pub mod Placed
pub mod Read
pub mod Starts
pub mod Added
pub mod Columns
