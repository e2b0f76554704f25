-- The choice by rule, as the walk over the list makes it. `Room`: the rows that it passes over. `Rule`: the rules' numbers.
pub mod Best
pub mod Room
pub mod Rule
