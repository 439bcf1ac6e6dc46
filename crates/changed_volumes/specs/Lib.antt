pub mod Changes
pub mod Files
pub mod Reading
pub mod LabelledFiles
pub mod Formats
