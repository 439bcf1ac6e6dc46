pub mod Track
pub mod Model
pub mod Charges
pub mod Changes
pub mod Geometry
pub mod NewVolume
