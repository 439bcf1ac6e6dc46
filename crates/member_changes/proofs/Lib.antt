pub mod Positions
pub mod Same
pub mod Placing
pub mod Written
pub mod Elsewhere
pub mod Law
pub mod Parts
