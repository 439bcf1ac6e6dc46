pub mod Admitted
pub mod Forms
pub mod InPacks
pub mod Volumes
pub mod Writing
