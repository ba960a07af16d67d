pub mod RunsLaws
