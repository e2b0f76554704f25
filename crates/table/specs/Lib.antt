-- `Record`: what a record written asks. `Slot`: a slot that is looked for.
pub mod Record
pub mod Slot
