pub mod Volumes
pub mod Commands
