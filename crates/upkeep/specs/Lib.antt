-- What the flags are after a load and after a change, what a change does to the list, and who is found; then the laws.
pub mod Flag
pub mod Change
pub mod Found
pub mod Laws
