-- What the stores leave of each field, and what sound memory gives.
pub mod Frames
pub mod Written
pub mod Fields
pub mod Costs
pub mod Stored
pub mod Lines
pub mod Blocks
pub mod Places
pub mod Turns
pub mod Flags
pub mod Ordered
pub mod Held
