pub mod Reading
pub mod FieldLaws
pub mod EntryLaws
