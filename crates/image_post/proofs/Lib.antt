pub mod Postings
