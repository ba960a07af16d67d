pub mod Runs
pub mod Fresh
pub mod Serials
pub mod Chain
pub mod Refusals
pub mod Posting
pub mod Figures
