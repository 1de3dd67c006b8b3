pub mod CoordinateLaws
pub mod WalkLaws
pub mod ReachLaws
