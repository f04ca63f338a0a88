-- What holds of the promises.
pub mod Tab
pub mod Answers
pub mod Stands
pub mod Accept
pub mod Written
