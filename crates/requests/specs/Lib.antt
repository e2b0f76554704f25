-- What judging, serving and running leave.
pub mod Operation
pub mod Accepted
pub mod Steps
pub mod SurfaceMut
