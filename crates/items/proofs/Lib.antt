pub mod ItemLaws
pub mod CountLaws
