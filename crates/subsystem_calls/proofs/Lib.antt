mod Shown
mod AtWork
mod FileTold
pub mod OtherWords
mod Owning
mod Saved
