pub mod Limits
pub mod Content
pub mod Answers
pub mod Calls
pub mod Histories
pub mod Laws
