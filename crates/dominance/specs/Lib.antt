-- A move of the code as a move of the definitions; the sums that Definition 1 is tested by, rows place by place, and their laws.
pub mod Move
pub mod Sums
pub mod Lanes
pub mod Laws
