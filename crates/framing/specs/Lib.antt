-- What the program answers, line after line; then what the code's contracts say besides, and laws.
pub mod Session
pub mod Example
pub mod Writing
pub mod Serving
pub mod Feeding
pub mod Laws
