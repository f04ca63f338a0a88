-- A set of numbers, as words hold it.
pub mod Set
