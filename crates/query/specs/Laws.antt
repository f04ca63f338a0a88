-- Laws of band, on k and chosen costs, and of their plans.
pub mod Rule
pub mod Beats
pub mod Band
pub mod Unbeaten
pub mod Calls
pub mod Plan
