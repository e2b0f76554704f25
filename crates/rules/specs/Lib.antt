-- THE RULES, as definitions. Read in this order; each quotes the sentence that it stands for. They are total: any numbers, any bytes.
pub mod Tests
pub mod Surface
pub mod Empties
pub mod Judging
pub mod Refusals
pub mod Requests
pub mod Place
pub mod Blocks
pub mod Calls
pub mod Host
pub mod Figures
pub mod Examples
pub mod HostFigures
