-- Laws of windows, of blocks, of the moves shown, and of the call.
pub mod Windows
pub mod Blocks
pub mod Shown
pub mod Calls
