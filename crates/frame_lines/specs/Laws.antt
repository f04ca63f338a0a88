-- Laws of the definitions and of what the contracts say.
pub mod Put
pub mod Texts
pub mod Judged
pub mod Lines
pub mod Pairs
pub mod Frames
