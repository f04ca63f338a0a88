-- What the functions over the lent memory ask, compute and store; then their laws.
pub mod Room
pub mod Held
pub mod Stores
pub mod Frame
pub mod Tests
pub mod Laws
