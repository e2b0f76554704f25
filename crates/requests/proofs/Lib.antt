-- Laws on plain values. `Lines`: bytes that must be zero, by their sum, and the lines of 11 to 17 and 23 in two parts. `StepLaws`: what each operation comes to. `Halves`: the change of an
-- accepted request, half by half, and what serving leaves. `Turns`: the requests of a block in turn.
pub mod Lines
pub mod StepLaws
pub mod Halves
pub mod Turns
