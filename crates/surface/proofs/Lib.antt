-- Laws behind the proofs of `surface`, plain mathematics.
pub mod SlotLaws
pub mod MarkLaws
pub mod RowLaws
pub mod ExamineLaws
pub mod ClearLaws
