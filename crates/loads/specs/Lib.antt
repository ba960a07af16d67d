pub mod Given
pub mod Loaded
pub mod Loads
pub mod Longest
