-- What the steps of each change leave, and the call's promise from plan, rows and steps.
pub mod Rows
pub mod Made
pub mod Flags
pub mod Steps
pub mod Enter
pub mod Withdraw
pub mod Recost
pub mod Give
pub mod Promise
pub mod CarryOut
