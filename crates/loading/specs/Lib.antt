-- What the parts of a load say and leave.
pub mod Judge
pub mod Blocks
pub mod File
pub mod Laws
