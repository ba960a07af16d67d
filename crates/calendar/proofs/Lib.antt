pub mod Spans
pub mod Years
pub mod Dates
pub mod Periods
pub mod Calendar
pub mod Printed
