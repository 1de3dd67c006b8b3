pub mod CellLaws
pub mod DrawLaws
