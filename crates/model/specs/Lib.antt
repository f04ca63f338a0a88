-- The definitions of document 01's base and of the paper, in the document's order; then the worked cases and examples.
-- The laws stand in proofs/, so that an edit of a definition reads and is refused by the laws that it breaks.
pub mod Basics
pub mod Moves
pub mod Dominance
pub mod Lists
pub mod Hours
pub mod Tree
pub mod Loading
pub mod Entering
pub mod Withdrawing
pub mod Nodes
pub mod Runs
pub mod Notice
pub mod Calls
pub mod Changing
pub mod Opening
pub mod Holder
pub mod Sound
pub mod Computing
pub mod Cases
pub mod Examples
