pub mod Moves
pub mod Accounts
pub mod Formulas
pub mod Windows
pub mod Checks
pub mod Answers
