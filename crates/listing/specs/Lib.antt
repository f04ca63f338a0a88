-- Laws of a list call's plan.
pub mod Laws
