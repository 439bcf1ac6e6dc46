pub mod Beside
pub mod Compare
pub mod Dump
pub mod Findings
pub mod Numbered
pub mod Reports
pub mod Strict
pub mod Styles
