-- What a memory is found to hold; then that the tests decide `Sound`.
pub mod Held
pub mod Laws
