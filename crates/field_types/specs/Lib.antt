pub mod FieldTypes
