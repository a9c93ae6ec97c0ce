pub mod Safe
