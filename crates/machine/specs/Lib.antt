pub mod Rest
pub mod Fetches
