pub mod Reading
pub mod Split
pub mod Digits
pub mod Spelling
pub mod Letters
pub mod SetsBack
pub mod EntriesBack
pub mod ReadBack
