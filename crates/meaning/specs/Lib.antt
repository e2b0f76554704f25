-- What the laws of the rules speak of: one column of a surface; a change of its modules; what a rule says; the numbers of a list of codes.
pub mod Column
pub mod Change
pub mod Rule
pub mod Numbers
