pub mod AnswersLaws
pub mod FormulasLaws
