-- Laws, so that an edit of a definition in specs/ reads and is refused by the laws that it breaks.
pub mod Laws
pub mod Demand3
pub mod BroughtUp
