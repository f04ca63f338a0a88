-- What the loops over places keep, and what the search opens.
pub mod Steps
pub mod Heights
pub mod Corners
pub mod Search
