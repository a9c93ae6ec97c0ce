pub mod LegLists
pub mod Members
