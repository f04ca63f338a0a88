-- The lent memory, when it is sound, and what each call promises.
pub mod Layout
pub mod Sound
pub mod Written
pub mod Used
pub mod Answers
pub mod Promise
pub mod Run
