-- What the exported calls promise, what the changes are asked, and plans told; then laws.
pub mod Exported
pub mod Asked
pub mod Told
pub mod Laws
