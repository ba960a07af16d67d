pub mod Rounding
pub mod Cents
pub mod Days
