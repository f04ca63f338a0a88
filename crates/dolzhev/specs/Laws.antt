-- Laws of the exported calls.
pub mod Previews
pub mod Demand3
