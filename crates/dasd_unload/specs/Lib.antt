pub mod Unloads
pub mod Asked
pub mod Causes
pub mod Parts
pub mod Told
pub mod Tracks
pub mod Volumes
pub mod Described
