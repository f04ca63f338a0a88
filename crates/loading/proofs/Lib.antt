-- What the proofs of the functions use.
pub mod Judging
pub mod Answering
