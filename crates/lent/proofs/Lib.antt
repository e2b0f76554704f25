-- Laws of the calls on bytes.
pub mod Laws
pub mod RunLaws
