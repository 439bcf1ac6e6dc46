mod Telling
mod Dropping
