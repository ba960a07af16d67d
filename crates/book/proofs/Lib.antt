pub mod ChainLaws
pub mod Posting
pub mod Figures
