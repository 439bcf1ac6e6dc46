pub mod Changes
pub mod Calls
pub mod Noted
pub mod Saves
