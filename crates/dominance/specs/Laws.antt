-- What holds of the sums, and of rows place by place.
pub mod Sums
pub mod Lanes
pub mod Tests
