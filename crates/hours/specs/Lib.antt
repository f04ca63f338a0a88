-- What the hours call computes; then its laws.
pub mod Open
pub mod Laws
