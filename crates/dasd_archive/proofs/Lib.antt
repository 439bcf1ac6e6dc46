pub mod Prefixes
pub mod Reported
pub mod Columns
pub mod Sought
pub mod Counted
