pub mod FieldsWithin
pub mod Records
pub mod Widths
pub mod WalkLaws
pub mod Integers
