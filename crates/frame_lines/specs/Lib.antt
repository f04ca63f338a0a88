-- Which bytes of an input are a line, which line is which frame, and which answer is which bytes; then what the code's contracts
-- say besides, and laws.
pub mod Digits
pub mod State
pub mod Frames
pub mod Text
pub mod Lines
pub mod Reading
pub mod Put
pub mod Laws
