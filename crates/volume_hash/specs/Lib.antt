pub mod Message
pub mod Lines
pub mod Apart
pub mod SetMessage
pub mod SetLines
pub mod Sets
pub mod Prints
pub mod SetsApart
