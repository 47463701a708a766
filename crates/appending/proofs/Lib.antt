pub mod Appends
pub mod ReadBack
pub mod ExactFields
