-- The laws of this crate, which other crates cite: numbers in octets, octets stored at a place, tests of every number below a bound, rows
-- of tables, and judging.
pub mod Numbers
pub mod Stores
pub mod Each
pub mod Rows
pub mod Judging
