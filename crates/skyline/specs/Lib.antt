-- What the chunks of listed moves hold; then their laws.
pub mod Chunks
pub mod Laws
