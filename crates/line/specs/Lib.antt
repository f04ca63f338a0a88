-- The tree as the memory holds it: the moves in Z-order, each with a height. Definitions; then the laws that tie them to
-- the nest of `model`.
pub mod Line
pub mod Places
pub mod Load
pub mod Enter
pub mod Withdraw
pub mod Heights
pub mod Search
pub mod Laws
