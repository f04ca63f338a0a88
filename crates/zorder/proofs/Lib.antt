-- The laws of the definitions in specs/, then what the proofs of several functions use.
pub mod Laws
pub mod Bits
pub mod Digits
pub mod Fill
pub mod Row
pub mod Checks
