pub mod Comparisons
pub mod Areas
pub mod Looks
pub mod Contents
