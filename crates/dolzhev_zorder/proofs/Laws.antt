-- What holds of the exported answers.
pub mod Exported
