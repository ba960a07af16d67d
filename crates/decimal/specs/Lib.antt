pub mod Decimal
pub mod Figures
