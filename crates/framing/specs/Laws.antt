-- Laws of the definitions and of what the contracts say.
pub mod Rows
pub mod Told
pub mod Said
pub mod Blocks
pub mod Serving
pub mod Feeding
