pub mod Bridges
pub mod Entries
pub mod Legs
pub mod Numbered
pub mod Range
pub mod Refusals
pub mod Rules
pub mod Bridged
