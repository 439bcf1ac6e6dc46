pub mod Tables
pub mod Answers
pub mod Commands
pub mod Drive
