pub mod Walk
pub mod StatementsLaws
