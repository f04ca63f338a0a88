-- Nodes and entries by places, and what the search through the nodes computes; then their laws.
pub mod Places
pub mod Search
pub mod Laws
