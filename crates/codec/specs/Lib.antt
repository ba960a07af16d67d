pub mod Bytes
pub mod Layouts
pub mod Records
pub mod Headers
