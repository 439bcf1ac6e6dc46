pub mod Indicators
pub mod Libraries
pub mod Long
pub mod Sections
