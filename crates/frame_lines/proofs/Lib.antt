-- What the proofs of the functions use.
pub mod Made
