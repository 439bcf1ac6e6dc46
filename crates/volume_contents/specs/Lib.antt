pub mod Blocks
pub mod Runs
pub mod Contents
pub mod Chains
pub mod Sets
pub mod Tracks
pub mod Claims
pub mod Checks
