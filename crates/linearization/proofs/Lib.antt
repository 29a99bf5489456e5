pub mod FaithLaws
pub mod Listed
pub mod LogLaws
pub mod MapLaws
pub mod PhaseLaws
pub mod Words
pub mod runs
