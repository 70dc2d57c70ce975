pub mod Each
pub mod ItemLaws
