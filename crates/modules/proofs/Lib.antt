-- `Weights`: what the walks leave are the weights of the table. `Plane`: from column to column; `Walks`: down a column; `Cells`: cells of a list. `Place`: the test
-- of a place.
pub mod Weights
pub mod Plane
pub mod Walks
pub mod Cells
pub mod Place
