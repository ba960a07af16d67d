pub mod Rows
pub mod Pages
