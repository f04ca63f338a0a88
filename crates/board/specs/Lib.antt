-- What holds of a plan that is carried out.
pub mod Laws
