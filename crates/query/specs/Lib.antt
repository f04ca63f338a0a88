-- What band, on k and chosen costs compute; then their laws.
pub mod Rule
pub mod Band
pub mod Unbeaten
pub mod Laws
