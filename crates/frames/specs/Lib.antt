-- What an error of input or output leaves.
pub mod Left
