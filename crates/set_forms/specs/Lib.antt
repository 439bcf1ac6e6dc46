pub mod Numbers
pub mod Names
pub mod Words
pub mod Forms
pub mod Parsing
pub mod Laws
