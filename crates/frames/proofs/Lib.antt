pub mod FdSums
pub mod Waits
pub mod WorkedNumbers
