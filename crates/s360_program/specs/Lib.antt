pub mod Place
pub mod Stage
pub mod Stands
pub mod Advances
pub mod Starting
pub mod Laws
pub mod Steps
pub mod Seen
