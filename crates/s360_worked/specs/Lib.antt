pub mod Volumes
pub mod ChannelPrograms
pub mod Seen
pub mod Channels
pub mod Small
