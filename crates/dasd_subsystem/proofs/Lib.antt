pub mod Drives
mod Copies
mod There
mod SameFiles
mod Refusing
pub mod Fitting
mod Joined
mod Goes
mod Seeing
