-- `Walk`: the walk over the list finds what the rule chooses. `Room`: rows that the walk may pass over.
pub mod Walk
pub mod Room
