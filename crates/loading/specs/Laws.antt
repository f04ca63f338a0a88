-- What accepted rows are, and what filing them one by one comes to.
pub mod Rows
pub mod Blocks
pub mod File
pub mod Load
