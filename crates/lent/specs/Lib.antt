-- What is known inside a call on lent bytes. What the calls promise is in `rules/specs/Host`.
pub mod Lent
pub mod Told
