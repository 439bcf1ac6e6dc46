pub mod Space
pub mod Frame
pub mod Changes
pub mod Small
