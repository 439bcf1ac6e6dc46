pub mod InPacks
