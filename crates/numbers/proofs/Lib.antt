-- What the proofs use of bits.
pub mod Bits
