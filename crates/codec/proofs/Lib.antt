-- Laws of weights and their bytes.
pub mod Laws
