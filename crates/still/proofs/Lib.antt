pub mod StillLaws
