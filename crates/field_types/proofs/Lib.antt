pub mod FieldTypes
pub mod TypeFacts
