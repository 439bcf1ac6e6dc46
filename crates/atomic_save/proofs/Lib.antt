mod Bytes
mod Moments
mod Steps
mod Put
mod Windows
mod Files
mod Seen
