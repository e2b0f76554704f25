-- The demands, from the contracts. `Chains`: calls one after the other; `Single`: blocks of one, in bytes; `Answered`: each request's answer; `Lists`: a list call; `Calls`: what a contract
-- says of a call; `Refusals`: codes, and when a request by rule is refused. Below them, over any step: `Blocks`; the history and the table: `Told`, `Afresh`; the frame: `Frames`, and as a test
-- `FrameTest`; blocks of the fabric: `Hard`. `Stands`: a cleared surface stands.
pub mod Chains
pub mod Single
pub mod Answered
pub mod Lists
pub mod Calls
pub mod Refusals
pub mod Blocks
pub mod Told
pub mod Afresh
pub mod Frames
pub mod Hard
pub mod FrameTest
pub mod Stands
