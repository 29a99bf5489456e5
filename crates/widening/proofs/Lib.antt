pub mod FieldLaws
pub mod SpreadLaws
pub mod WideLaws
