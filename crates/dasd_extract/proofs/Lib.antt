pub mod Endings
pub mod Lines
pub mod Numbers
pub mod Characters
pub mod Printings
pub mod Spelled
pub mod Told
