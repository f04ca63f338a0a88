-- The flagged moves are the list.
pub mod List
