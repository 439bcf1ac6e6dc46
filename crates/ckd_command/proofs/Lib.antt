pub mod CommandFacts
pub mod Arms
pub mod Marks
pub mod Stable
pub mod Lengths
pub mod Sights
pub mod Closings
