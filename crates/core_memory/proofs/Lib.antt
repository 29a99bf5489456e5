pub mod EntryLaws
pub mod Tables
pub mod WholeRows
