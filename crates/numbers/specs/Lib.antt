pub mod Answers
pub mod Each
pub mod Numbers
