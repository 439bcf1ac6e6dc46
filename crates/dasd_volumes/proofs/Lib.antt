pub mod Formats
pub mod Appended
pub mod Fronts
pub mod Together
pub mod Printing
pub mod Walked
pub mod Counting
