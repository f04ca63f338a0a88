-- What the functions' turns and ends say, over lines and memories.
pub mod Halving
pub mod Rows
pub mod Moving
pub mod Inserting
pub mod Raising
pub mod Entries
pub mod Cut
pub mod Cascade
pub mod Putting
pub mod Entered
pub mod Saving
pub mod Gap
pub mod Widening
pub mod Lowering
pub mod Again
pub mod Distinct
pub mod Removal
