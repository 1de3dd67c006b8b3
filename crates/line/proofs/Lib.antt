pub mod WordsLaws
pub mod LineLaws
