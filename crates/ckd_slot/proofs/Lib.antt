pub mod AreaPlaces
pub mod Writes
pub mod Begun
pub mod Lengths
pub mod Updates
pub mod Caches
