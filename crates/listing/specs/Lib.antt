pub mod Listed
