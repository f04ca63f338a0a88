-- That the tests decide `Sound`, and that no answer depends on bytes not in use.
pub mod Held
pub mod Levels
pub mod Head
pub mod Decide
pub mod Used
pub mod Front
pub mod Alike
pub mod Answers
