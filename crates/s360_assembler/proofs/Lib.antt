mod Flags
mod Passes
mod Pieces
mod Positions
mod Rows
