pub mod GoneLaws
pub mod FieldLaws
pub mod MarkLaws
pub mod AxisLaws
