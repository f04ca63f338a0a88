-- Laws of what the exported calls promise.
pub mod Asked
pub mod Exported
