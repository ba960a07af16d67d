pub mod YearsLaws
