pub mod Names
pub mod Entries
pub mod Plans
pub mod Confirms
pub mod Libraries
pub mod Places
pub mod Volumes
pub mod Laws
