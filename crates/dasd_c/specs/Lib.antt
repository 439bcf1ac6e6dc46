pub mod Shown
pub mod Calls
pub mod Files
pub mod Copying
pub mod Tracing
pub mod Until
