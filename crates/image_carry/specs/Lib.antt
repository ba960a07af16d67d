pub mod Carries
