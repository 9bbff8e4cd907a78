pub mod Marks
pub mod Keeping
pub mod Questions
pub mod Laws
