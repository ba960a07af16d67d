pub mod Entries
pub mod Loads
pub mod Replays
