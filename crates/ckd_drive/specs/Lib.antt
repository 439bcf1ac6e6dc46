pub mod Work
pub mod Invariant
pub mod Passing
pub mod Calls
pub mod Jobs
pub mod Laws
pub mod Searches
