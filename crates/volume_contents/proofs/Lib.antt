pub mod Added
pub mod Cylinders
mod Followed
pub mod Sums
pub mod InTurn
pub mod Checked
pub mod Fronts
