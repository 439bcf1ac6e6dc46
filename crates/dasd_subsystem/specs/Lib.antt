pub mod Fitting
pub mod Making
pub mod Attaching
pub mod Shown
pub mod Watched
pub mod Glances
pub mod Until
pub mod Saving
