-- What does not depend on costs past d.
pub mod Width
pub mod WidthTree
pub mod WidthChanges
pub mod Widened
