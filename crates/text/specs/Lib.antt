pub mod Books
pub mod Reading
pub mod Writing
