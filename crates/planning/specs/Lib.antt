-- What a planned change says, and what carrying it out asks and leaves.
pub mod Kind
pub mod Change
pub mod Plan
