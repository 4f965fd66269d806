pub mod Kinds
pub mod Answers
pub mod Codes
pub mod Refusals
pub mod Outcomes
