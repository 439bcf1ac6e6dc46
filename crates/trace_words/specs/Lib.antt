pub mod Columns
pub mod Events
pub mod Lines
pub mod Numbers
pub mod Reasons
pub mod Remarks
pub mod Texts
pub mod Tracks
