-- What the search over places and the columns answer; then their laws.
pub mod Search
pub mod Columns
pub mod Laws
