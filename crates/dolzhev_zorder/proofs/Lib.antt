-- The laws of the exported answers.
pub mod Laws
