-- What rank computes; then its laws.
pub mod Rank
pub mod Laws
