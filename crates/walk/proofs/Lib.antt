pub mod CourseLaws
pub mod WalkLaws
