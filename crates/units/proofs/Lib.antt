pub mod UnitLaws
pub mod AnswerLaws
