-- Runs of the exported calls; then laws.
pub mod Run
pub mod Laws
