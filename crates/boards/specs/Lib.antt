pub mod Boards
pub mod Nets
pub mod Laws
pub mod Example
