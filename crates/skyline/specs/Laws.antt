-- That both halves together decide whether the flagged moves are the list.
pub mod Chunks
pub mod Unhidden
pub mod Highs
pub mod Halves
