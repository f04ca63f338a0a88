-- What the operations on the rows of the lent memory ask and leave; then their laws.
pub mod Rows
pub mod Split
pub mod Hold
pub mod Enter
pub mod Withdraw
pub mod Laws
