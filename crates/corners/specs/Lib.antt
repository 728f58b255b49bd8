-- 01's corner table (Table); the largest f64 (Most); corner facts, each side computed (laws).
pub mod Most
pub mod Table
pub mod laws
