pub mod Reading
pub mod Volumes
