pub mod Fits
mod Placed
mod TextLines
mod Lost
mod Put
mod PlacedRead
mod RefusedPlaced
mod Tracks
mod Within
mod LibraryFits
mod Made
mod LibraryPlaced
mod LibraryRead
mod Changes
