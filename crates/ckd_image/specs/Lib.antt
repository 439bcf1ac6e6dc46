pub mod Store
pub mod Failing
pub mod Layout
pub mod Header
pub mod Slots
pub mod Files
pub mod Image
