pub mod Loads
pub mod Longest
