-- Laws of what is told and planned.
pub mod Set
pub mod Telling
pub mod Listed
