-- What a turn of each loop keeps, and what an answer means.
pub mod Search
pub mod Hiders
pub mod Counts
pub mod Columns
