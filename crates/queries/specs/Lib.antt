pub mod Replies
pub mod Chain
pub mod Walk
pub mod Statements
pub mod Contributions
