-- What the walks down a column, and from column to column, leave: `Walk` of the weights, `Grid` of what lends them.
pub mod Walk
pub mod Grid
