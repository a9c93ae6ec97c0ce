pub mod Net
pub mod Deadlines
pub mod Walk
pub mod Bound
pub mod Laws
pub mod Machine
pub mod Stored
pub mod Example
