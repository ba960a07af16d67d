pub mod Kinds
pub mod Ranges
pub mod Refusals
pub mod Data
pub mod Order
pub mod Arrivals
