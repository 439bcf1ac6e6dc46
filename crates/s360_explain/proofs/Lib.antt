pub mod Lists
pub mod NameLists
