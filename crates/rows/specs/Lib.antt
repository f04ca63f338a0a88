-- A row as numbers, what is told, and what is planned; then the laws.
pub mod Rows
pub mod Telling
pub mod Planned
pub mod Laws
