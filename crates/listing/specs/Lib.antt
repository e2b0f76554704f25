-- One row of a surface, what its entries are, and the list as the rows' entries one behind the other.
pub mod Row
pub mod Meaning
pub mod Listed
