pub mod RowsLaws
pub mod Pages
