mod Chains
mod Told
mod Unread
mod Adds
mod Found
mod Keyed
