-- That the plan is the change's: laws over plain values.
pub mod Judge
pub mod Coming
pub mod Places
pub mod Told
pub mod Notice
pub mod Calls
pub mod Accepted
pub mod Unchanged
pub mod Plan
