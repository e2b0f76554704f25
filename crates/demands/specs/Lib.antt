-- What the demands speak of besides the rules: a sound request, the frame, the history, calls one after the other, and what a list call has written.
pub mod Sound
pub mod Frame
pub mod History
pub mod Told
pub mod Chain
pub mod Listed
pub mod Examples
