-- That the steps of a change compute what the definition says.
pub mod Places
pub mod Passing
pub mod Change
pub mod BroughtUp
pub mod Flags
pub mod Place
pub mod Others
pub mod Notified
pub mod Found
