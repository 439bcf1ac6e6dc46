pub mod Sizes
pub mod Lines
pub mod Reading
pub mod Volumes
pub mod Listing
pub mod Checks
pub mod Printing
pub mod Stages
